mod Made
mod Readings
mod Fillings
mod Writings
