pub mod ReadBack
mod Facts
