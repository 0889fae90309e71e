mod Accepting
mod Sendable
mod Returning
mod Holding
