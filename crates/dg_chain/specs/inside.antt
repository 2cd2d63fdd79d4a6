pub mod Tells
