mod ReadFiles
mod SameFolders
