mod Calling
mod Making
mod Opening
