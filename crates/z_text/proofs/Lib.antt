pub mod Words
pub mod TextCodes
pub mod Packed
