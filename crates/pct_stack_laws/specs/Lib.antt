pub mod StackLaw
