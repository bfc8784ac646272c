mod NewState
mod NewFile
