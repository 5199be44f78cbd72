pub mod Numbers
pub mod Said
pub mod Meaning
pub mod Commands
pub mod Grammar
