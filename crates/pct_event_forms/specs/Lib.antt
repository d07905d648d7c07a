pub mod EventForms
