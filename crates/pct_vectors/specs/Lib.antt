pub mod GeneratedContents
