pub mod Lists
pub mod Cut
