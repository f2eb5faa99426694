pub mod Tildes
pub mod Class
pub mod Determined
pub mod Dollars
pub mod Ending
