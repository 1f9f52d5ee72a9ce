mod Places
mod Standing
mod Keeping
mod Ending
mod Working
mod Spelling
mod Fronts
mod Texts
