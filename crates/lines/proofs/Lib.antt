pub mod FieldEnds
