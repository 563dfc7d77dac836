mod Callers
mod Sessions
