mod Positive
mod ValueRows
mod KindFields
mod FormRows
mod KindValues
mod KindNames
mod WordValues
mod ThreadWords
mod FoundForms
mod EventLines
mod EventLists
pub mod ReportParts
