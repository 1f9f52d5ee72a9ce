mod Reading
mod OneToken
mod Parsers
mod Commands
