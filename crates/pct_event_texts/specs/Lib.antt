pub mod EventFields
