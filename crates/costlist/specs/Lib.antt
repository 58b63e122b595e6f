pub mod CostLines
