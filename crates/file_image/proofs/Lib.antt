mod FirstCommit
mod NewFiles
mod OneDurable
mod Changed
