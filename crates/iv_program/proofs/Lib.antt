mod Connections
mod Endings
