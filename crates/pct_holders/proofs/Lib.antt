pub mod HolderOrder
