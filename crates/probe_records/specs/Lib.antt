-- Numbers as bytes, lowest byte first.
pub mod LittleEndian
