-- `Bytes` has what the loops go by; `Encoded` carries escapes and tags from characters to bytes.
pub mod Bytes
pub mod Encoded
