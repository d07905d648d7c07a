mod NoValues
mod Scan
mod SoundTables
