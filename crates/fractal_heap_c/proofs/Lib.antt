pub mod Naming
pub mod Taking
pub mod Refusing
