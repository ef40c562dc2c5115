pub mod Limits
pub mod Frame
pub mod Kind
pub mod Digits
pub mod Said
pub mod Text
pub mod Answer
pub mod Stream
