mod Words
mod Rows
mod Firsts
mod Causing
mod Files
