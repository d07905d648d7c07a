pub mod JumpTable
