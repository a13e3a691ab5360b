pub mod Bytes
pub mod Bodies
pub mod Readings
pub mod Cuts
pub mod Fronts
pub mod RecordEnds
pub mod Told
pub mod Digests
