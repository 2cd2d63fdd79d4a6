pub mod Dice
pub mod Statuses
