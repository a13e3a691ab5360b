pub mod FrameBytes
pub mod Roles
pub mod ProtocolSteps
pub mod HeardFrames
pub mod SocketTraffic
