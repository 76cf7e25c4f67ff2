pub mod Laying
pub mod Frames
