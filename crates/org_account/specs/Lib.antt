pub mod Units
pub mod Table
pub mod Order
pub mod Text
pub mod Heading
pub mod Place
pub mod Account
