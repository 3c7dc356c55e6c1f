pub mod TotalLines
