mod FirstLogs
mod JobEnds
mod LaidLists
mod Parts
mod ToldFiles
mod Writes
