mod Rows
mod Sources
