mod Lines
mod Members
mod TokensAndValues
