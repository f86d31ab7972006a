pub mod Laws
pub mod Bits
pub mod Octets
pub mod BitLaws
pub mod OctetLaws
pub mod Tests
