pub mod Books
pub mod Events
pub mod Sittings
pub mod Claims
pub mod Office
pub mod Examples
