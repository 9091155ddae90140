pub mod Words
pub mod Numbers
pub mod Refusals
pub mod Pages
pub mod Subjects
pub mod Asked
pub mod Help
pub mod Laws
