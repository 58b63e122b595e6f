pub mod Held
pub mod Impostors
pub mod Meanings
pub mod Singles
pub mod Totals
