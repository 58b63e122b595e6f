pub mod Largest
pub mod Letters
pub mod Tables
pub mod Weights
pub mod LargestMoves
pub mod TablesLemmas
pub mod Bumps
pub mod WeightsLemmas
