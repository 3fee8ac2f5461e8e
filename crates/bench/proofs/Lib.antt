mod Ready
mod Sends
