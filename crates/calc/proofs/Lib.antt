mod Decimals
mod Spelling
