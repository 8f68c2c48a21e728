mod HeadFields
mod OutLists
mod Parts
