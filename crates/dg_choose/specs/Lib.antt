pub mod Dice
pub mod Site
