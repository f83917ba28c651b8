pub mod Laying
pub mod Standing
pub mod Waiting
