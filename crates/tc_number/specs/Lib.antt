pub mod Number
pub mod Printed
