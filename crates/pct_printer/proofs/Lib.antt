pub mod Writings
pub mod Printed
