mod Applying
mod Keeping
mod Lining
mod Placing
