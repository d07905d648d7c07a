mod NoteSet
mod KnownIds
mod AllEnded
mod MoreEvents
