pub mod ServesAfter
