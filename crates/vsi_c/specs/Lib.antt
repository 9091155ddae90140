pub mod Cells
pub mod Lost
pub mod Calls
