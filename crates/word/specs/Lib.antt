pub mod Conditions
pub mod Exact
pub mod Products
pub mod ProductsExact
pub mod Shifts
pub mod Sums
pub mod Words
