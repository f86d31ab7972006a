mod Obeying
mod Verdicts
