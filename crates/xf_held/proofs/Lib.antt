pub mod Lasts
pub mod Tops
