pub mod Kinds
pub mod Meaning
pub mod DocFalls
pub mod ShapeMeaning
pub mod ShapeFalls
pub mod Texts
