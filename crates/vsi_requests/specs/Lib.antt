pub mod ReadNames
